use Rattle.definitions.specs.Matching.{matches}
use Rattle.shards.proofs.MergedLists.{count_of_all}
use Rattle.shards.proofs.shard_laws.counts_add_up.Goals as goal

pub returns : goal.returns
returns c schema analyze lists q = count_of_all (λ doc. matches schema analyze doc q) lists
