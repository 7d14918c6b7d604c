use Rattle.std.proofs.Common.{subst}
use Rattle.definitions.specs.Settings.{similarity_of}
use Rattle.query_trees.specs.Queries.{query_of}
use Rattle.query_scorers.specs.Accepted.{IsAccepted}
use Rattle.weight_calls.proofs.made_weights.made.Goals as goal

pub made_prefix-requires : goal.made_prefix-requires
made_prefix-requires c = subst (λ q. IsAccepted (similarity_of c.args.statistics.now).weight 1 (query_of q)) c.in-PhrasePrefix.is c.requires
