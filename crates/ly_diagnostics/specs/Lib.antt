pub mod Indented
pub mod Lines
pub mod Private
pub mod Telling
