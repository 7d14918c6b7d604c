pub mod Refusals
pub mod TypedMarks
pub mod Pieces
pub mod Heads
pub mod Operators
pub mod Reading
pub mod Answers
pub mod Writing
-- Words of the contracts.
pub mod Cutting
pub mod Clauses
pub mod Groups
pub mod Findings
pub mod JsonPaths
-- The data of worked examples.
pub mod GrammarExamples
