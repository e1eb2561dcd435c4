pub mod Counted
pub mod Device
pub mod Json
pub mod MemSink
pub mod MemSource
pub mod Private
pub mod Text
pub mod TextWriter
