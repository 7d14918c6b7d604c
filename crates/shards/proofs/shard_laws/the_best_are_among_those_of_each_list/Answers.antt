use Rattle.definitions.specs.Scanning.{hit_of}
use Rattle.shards.proofs.MergedLists.{best_of_all}
use Rattle.shards.proofs.shard_laws.the_best_are_among_those_of_each_list.Goals as goal

pub returns : goal.returns
returns c schema analyze sim lists q k j enough = best_of_all (λ h. h.0) (hit_of schema analyze sim q) k j enough lists
