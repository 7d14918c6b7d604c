use Rattle.segment_definitions.proofs.Merges.{merged_groups}
use Rattle.segment_definitions.proofs.laws.a_merge_leaves_rows.Goals as goal

pub returns : goal.returns
returns c = merged_groups
