-- Records as they are written and read.
pub mod Frames
pub mod Outcomes
pub mod Kept
pub mod HandedBack
pub mod FreshPlaces
-- How the bodies of segments are read.
pub mod Parts
pub mod Bodies
pub mod Places
-- The list of segments that a file's last record leaves.
pub mod Lists
pub mod Reading
