use Rattle.std.proofs.Common.{ap, arith, min, sym, ◌∙◌}
use Rattle.docsets.specs.ScoredEntries.{rescored_by}
use Rattle.docsets.proofs.ScoredEntryLaws.{docs-taken, drop-rescored, greatest-rest, length-rescored}
use Rattle.intersections.specs.Optionals.{score_with}
use Rattle.intersections.proofs.required_optional_scorer.RequiredOptionalScorerDocSet.fill_buffer.Goals as goal

pub invariant_of-self : goal.invariant_of-self
invariant_of-self g c =
    let es = g.R.DocSet.entries c.args.self.now.req_scorer in
    let rest = g.R.DocSet.entries c.fill_buffer.new.self in
    let less = greatest-rest rest es ((64, c.fill_buffer.ensures.rest)) in
    let fits = c.args.self.now.fits in
    record { unused = c.args.self.now.unused; adds = c.args.self.now.adds; fits = omega (arith, less, fits) }

pub returns-clause-len : goal.returns-clause-len
returns-clause-len g c = c.fill_buffer.ensures.len ∙ ap (min 64) (sym (length-rescored (score_with (g.C.ScoreCombiner.answer c.args.self.now.fresh) (g.O.DocSet.entries c.args.self.now.opt_scorer)) (g.R.DocSet.entries c.args.self.now.req_scorer)))

pub returns-clause-written : goal.returns-clause-written
returns-clause-written g c = c.fill_buffer.ensures.written ∙ sym (docs-taken (score_with (g.C.ScoreCombiner.answer c.args.self.now.fresh) (g.O.DocSet.entries c.args.self.now.opt_scorer)) 64 (g.R.DocSet.entries c.args.self.now.req_scorer))

pub returns-clause-rest : goal.returns-clause-rest
returns-clause-rest g c = ap (rescored_by (score_with (g.C.ScoreCombiner.answer c.args.self.now.fresh) (g.O.DocSet.entries c.args.self.now.opt_scorer))) c.fill_buffer.ensures.rest ∙ sym (drop-rescored (score_with (g.C.ScoreCombiner.answer c.args.self.now.fresh) (g.O.DocSet.entries c.args.self.now.opt_scorer)) 64 (g.R.DocSet.entries c.args.self.now.req_scorer))
