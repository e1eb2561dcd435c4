-- Definitions for contracts of private functions.
pub mod Chains
pub mod Classes
pub mod Found
pub mod Keys
pub mod Members
pub mod Packed
pub mod Rules
pub mod Steps
