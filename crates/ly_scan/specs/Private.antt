pub mod KnownWalks
pub mod Matching
pub mod Scanner
pub mod StateRows
