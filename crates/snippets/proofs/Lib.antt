pub mod Bytes
pub mod Cuts
pub mod OnLiterals
pub mod Shown
pub mod ShownTexts
pub mod Windows
pub mod Parts
