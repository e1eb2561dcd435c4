pub mod Levels
pub mod Paths
pub mod Search
pub mod Stacks
pub mod Text
