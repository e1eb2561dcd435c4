pub mod Groups
pub mod Private
pub mod GroupReport
