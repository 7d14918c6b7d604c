-- What a run over the lines of an input writes.
pub mod Reading
pub mod Serving
