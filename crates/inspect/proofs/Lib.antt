-- Lemmas behind lines.
pub mod Mapped
pub mod ReadBack
-- Lemmas behind records.
pub mod Framed
pub mod Listed
pub mod RecordsLeft
-- Lemmas behind documents.
pub mod Members
pub mod Parts
pub mod Bodies
pub mod Origins
pub mod Unread
-- Lemmas behind what is damaged.
pub mod Damages
