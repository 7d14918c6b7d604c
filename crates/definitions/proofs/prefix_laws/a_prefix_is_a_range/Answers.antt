use Rattle.definitions.proofs.PrefixRanges.{prefix_range}
use Rattle.definitions.proofs.prefix_laws.a_prefix_is_a_range.Goals as goal

pub returns : goal.returns
returns c = prefix_range
