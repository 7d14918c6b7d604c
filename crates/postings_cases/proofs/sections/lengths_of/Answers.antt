use Rattle.std.proofs.Common.{[]}
use Rattle.postings_cases.proofs.sections.lengths_of.Goals as goal

pub index_all-requires : goal.index_all-requires
index_all-requires c = ([], c.in_ok-indexer.ensures _)

pub serialize-requires : goal.serialize-requires
serialize-requires c = (let all = c.in_ok-index_all.ensures in ∣ (_, all.0, all.1) ∣₁)
