pub mod Answers
pub mod Listing
pub mod Putting
pub mod Reading
pub mod TokenPutting
