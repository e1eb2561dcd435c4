pub mod Grouping
pub mod Keys
