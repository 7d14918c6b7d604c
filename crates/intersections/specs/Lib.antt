pub mod Differences
pub mod Optionals
pub mod Columns
pub mod Meetings
pub mod Thresholds
-- Laws that clauses and proofs of types must name.
pub mod DifferenceLaws
pub mod ExclusionLaws
pub mod OptionalLaws
pub mod MeetingLaws
