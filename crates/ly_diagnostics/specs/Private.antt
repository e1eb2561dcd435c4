-- Definitions for the contracts of private functions.
pub mod Indented
