pub mod Edits
pub mod Examples
pub mod Laws
pub mod Private
pub mod Repairs
pub mod Runs
pub mod Values
