-- Lemmas behind merged replies.
pub mod MergedLists
pub mod MergedReplies
pub mod RankedHits
