pub mod Private
pub mod Smallest
