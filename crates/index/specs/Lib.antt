-- What requests of an index ask for, what is replied, and what a session stands for.
pub mod AskedRequests
pub mod Replying
pub mod Sessions
pub mod Asking
pub mod Outcomes
pub mod Replied
pub mod Runs
