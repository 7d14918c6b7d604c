use Rattle.std.proofs.Common.{flat_map}
use Rattle.merging.proofs.MergedKeys.{keys_ascend, merged_among}
use Rattle.merging.specs.KeyLists.{keys_of}
use Rattle.merging.proofs.key_laws.merged_keys_ascend.Goals as goal

pub returns-clause-ascend : goal.returns-clause-ascend
returns-clause-ascend c members = keys_ascend (flat_map keys_of members)

pub returns-clause-among : goal.returns-clause-among
returns-clause-among c members key = merged_among members key
