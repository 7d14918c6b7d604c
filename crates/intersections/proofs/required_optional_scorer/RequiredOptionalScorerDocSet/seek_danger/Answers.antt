use Rattle.std.proofs.Common.{arith}
use Rattle.docsets.proofs.ScoredEntryLaws.{danger-rescored, danger-rest, greatest-rest}
use Rattle.intersections.specs.Optionals.{score_with}
use Rattle.intersections.proofs.required_optional_scorer.RequiredOptionalScorerDocSet.seek_danger.Goals as goal

pub invariant_of-self : goal.invariant_of-self
invariant_of-self g c =
    let es = g.R.DocSet.entries c.args.self.now.req_scorer in
    let rest = g.R.DocSet.entries c.seek_danger.new.self in
    let less = greatest-rest rest es (danger-rest c.seek_danger.result c.args.target es rest (g.met.R.DocSet.rising c.args.self.now.req_scorer) c.seek_danger.ensures) in
    let fits = c.args.self.now.fits in
    record { unused = c.args.self.now.unused; adds = c.args.self.now.adds; fits = omega (arith, less, fits) }

pub returns : goal.returns
returns g c = danger-rescored (score_with (g.C.ScoreCombiner.answer c.args.self.now.fresh) (g.O.DocSet.entries c.args.self.now.opt_scorer)) c.seek_danger.result c.args.target (g.R.DocSet.entries c.args.self.now.req_scorer) (g.R.DocSet.entries c.seek_danger.new.self) c.seek_danger.ensures
