pub mod Cutting
pub mod Passages
pub mod ShownTexts
pub mod Snippets
-- The data of the worked examples.
pub mod Examples
-- Words of the contracts.
pub mod Views
