pub mod Fault
pub mod Labels
pub mod Listings
pub mod Private
