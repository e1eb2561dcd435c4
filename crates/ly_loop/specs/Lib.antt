pub mod Endless
pub mod FaultNames
pub mod Private
