-- Definitions for contracts of private functions.
pub mod Blocks
pub mod Groups
pub mod Halves
pub mod Partition
pub mod Quotient
pub mod Rules
pub mod Signature
