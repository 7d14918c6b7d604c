use Rattle.std.proofs.Common.{subst}
use Rattle.definitions.specs.Settings.{similarity_of}
use Rattle.query_trees.specs.Queries.{query_of}
use Rattle.query_scorers.specs.Accepted.{IsAccepted}
use Rattle.weight_calls.proofs.counted_forms.count_by_form.Goals as goal

pub count_term-counted-requires : goal.count_term-counted-requires
count_term-counted-requires c = subst (λ q. IsAccepted (similarity_of c.args.statistics.now).weight 1 (query_of q)) c.in-Term.is c.requires

pub count_phrase-counted-requires : goal.count_phrase-counted-requires
count_phrase-counted-requires c = subst (λ q. IsAccepted (similarity_of c.args.statistics.now).weight 1 (query_of q)) c.in-Phrase.is c.requires

pub count_boosted-requires : goal.count_boosted-requires
count_boosted-requires c = subst (λ q. IsAccepted (similarity_of c.args.statistics.now).weight 1 (query_of q)) c.in-Boost.is c.requires

pub count_constant-requires : goal.count_constant-requires
count_constant-requires c = subst (λ q. IsAccepted (similarity_of c.args.statistics.now).weight 1 (query_of q)) c.in-ConstScore.is c.requires
