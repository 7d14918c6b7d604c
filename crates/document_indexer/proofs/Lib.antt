-- Lemmas behind the indexing of documents.
pub mod KeptStarts
pub mod Recording
pub mod Seen
pub mod PathTerms
pub mod FacetSteps
pub mod LeafSteps
pub mod TermPositions
pub mod KindRuns
pub mod CleanPaths
pub mod JsonRuns
pub mod DocRuns
pub mod Grouping
pub mod PostingsOf
pub mod Adding
pub mod PassedLimits
pub mod CountedLengths
pub mod KeptLengths
