pub mod Joining
pub mod Numbering
pub mod Rules
pub mod Tables
