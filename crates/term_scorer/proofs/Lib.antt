pub mod SignedScores
pub mod TermScoreLaws
pub mod BlockBounds
pub mod ExplanationNodes
pub mod JsonDepths
