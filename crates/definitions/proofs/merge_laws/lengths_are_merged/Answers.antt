use Rattle.definitions.specs.Scoring.{length_id}
use Rattle.definitions.proofs.MergedRows.{live_rows}
use Rattle.definitions.proofs.merge_laws.lengths_are_merged.Goals as goal

pub returns : goal.returns
returns c schema analyze field segments = live_rows (length_id schema analyze field) segments
