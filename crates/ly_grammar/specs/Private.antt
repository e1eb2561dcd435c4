pub mod First
pub mod Reach
pub mod Search
pub mod Sizes
