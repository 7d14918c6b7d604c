pub mod Options
pub mod RecordOption
