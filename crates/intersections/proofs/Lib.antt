-- Lemmas on the words of the contracts.
pub mod BoundLaws
pub mod ThresholdLaws
pub mod ColumnLaws
pub mod DifferenceLaws
pub mod ExclusionLaws
pub mod MeetingLaws
pub mod OptionalLaws
