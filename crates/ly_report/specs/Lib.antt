pub mod Counts
pub mod Laws
pub mod Private
pub mod Report
