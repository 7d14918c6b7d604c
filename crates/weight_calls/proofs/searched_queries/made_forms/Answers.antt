use Rattle.std.proofs.Common.{arith, subst, sym}
use Rattle.definitions.specs.Settings.{similarity_of}
use Rattle.query_trees.specs.Queries.{query_of}
use Rattle.query_scorers.specs.Accepted.{IsAccepted}
use Rattle.segment_reader.specs.Searchers.{statistics_of}
use Rattle.weight_calls.proofs.searched_queries.made_forms.Goals as goal

pub made-requires : goal.made-requires
made-requires c = subst (λ s. IsAccepted (similarity_of s).weight 1 (query_of c.args.query.now)) (sym c.statistics.ensures) c.requires.accepted

pub count-requires-clause-few : goal.count-requires-clause-few
count-requires-clause-few c = let one = c.requires.one in omega (arith, one)

pub count-requires-clause-accepted : goal.count-requires-clause-accepted
count-requires-clause-accepted c = ∣ ((similarity_of (statistics_of c.args.searcher.now)).weight, c.requires.accepted) ∣₁
