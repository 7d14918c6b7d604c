use Rattle.definitions.proofs.MergedRows.{live_postings}
use Rattle.definitions.proofs.merge_laws.postings_are_merged.Goals as goal

pub returns : goal.returns
returns c = live_postings
