-- Definitions for the contracts of private functions. No public contract depends on them.
pub mod Marks
pub mod Room
pub mod SoFar
pub mod Spot
