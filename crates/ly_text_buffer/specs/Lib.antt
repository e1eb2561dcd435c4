pub mod Json
pub mod NamedFile
pub mod TextBuffer
