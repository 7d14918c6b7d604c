use Rattle.std.proofs.Common.{ap, arith, sym, ◌∙◌}
use Rattle.docsets.proofs.EntryLaws.{IsRest-from}
use Rattle.docsets.specs.ScoredEntries.{rescored_by}
use Rattle.docsets.proofs.ScoredEntryLaws.{IsRest-along, from-rescored, greatest-rest}
use Rattle.intersections.specs.Optionals.{score_with}
use Rattle.intersections.proofs.required_optional_scorer.RequiredOptionalScorerDocSet.seek.Goals as goal

pub invariant_of-self : goal.invariant_of-self
invariant_of-self g c =
    let es = g.R.DocSet.entries c.args.self.now.req_scorer in
    let rest = g.R.DocSet.entries c.seek.new.self in
    let less = greatest-rest rest es (IsRest-along _ _ _ c.seek.ensures.rest (IsRest-from c.args.target 0 es (g.met.R.DocSet.rising c.args.self.now.req_scorer))) in
    let fits = c.args.self.now.fits in
    record { unused = c.args.self.now.unused; adds = c.args.self.now.adds; fits = omega (arith, less, fits) }

pub returns-clause-rest : goal.returns-clause-rest
returns-clause-rest g c = ap (rescored_by (score_with (g.C.ScoreCombiner.answer c.args.self.now.fresh) (g.O.DocSet.entries c.args.self.now.opt_scorer))) c.seek.ensures.rest ∙ sym (from-rescored (score_with (g.C.ScoreCombiner.answer c.args.self.now.fresh) (g.O.DocSet.entries c.args.self.now.opt_scorer)) c.args.target (g.R.DocSet.entries c.args.self.now.req_scorer))
