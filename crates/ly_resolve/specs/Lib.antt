pub mod Actions
pub mod Conflicts
pub mod Laws
pub mod Machine
pub mod Precedence
pub mod Private
pub mod Resolved
pub mod Values
