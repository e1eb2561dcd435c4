pub mod Spans
pub mod Private
