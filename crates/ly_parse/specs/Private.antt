-- Cited by contracts of private functions.
pub mod Answered
pub mod Before
pub mod Copied
pub mod LastRun
pub mod Paying
pub mod Shortcuts
pub mod Stack
