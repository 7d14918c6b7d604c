-- Lemmas behind requests, replies and sessions.
pub mod RequestForms
pub mod Causes
pub mod IndexFiles
pub mod Answering
pub mod Stages
pub mod KeptDevices
pub mod Leavings
pub mod SessionSteps
pub mod RunReplies
pub mod Asked
pub mod Failures
pub mod LineCrashes
pub mod LineLists
pub mod Endings
pub mod AnyLines
