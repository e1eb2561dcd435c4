pub mod Filling
pub mod Listing
pub mod Lists
