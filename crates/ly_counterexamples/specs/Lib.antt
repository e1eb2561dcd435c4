pub mod Demands
pub mod Doubts
pub mod Examples
pub mod Laws
pub mod Moves
pub mod Openings
pub mod Private
pub mod Sentences
