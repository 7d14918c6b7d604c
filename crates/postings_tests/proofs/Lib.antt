pub mod TermEntries
