pub mod Answering
pub mod DriveFault
pub mod Lines
pub mod Private
pub mod TableTokens
