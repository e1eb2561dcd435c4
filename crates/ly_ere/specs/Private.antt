-- Definitions for contracts of private functions: the intermediate results of the reader of expressions. No public
-- contract depends on them.
pub mod Brackets
pub mod Cuts
pub mod Definitions
pub mod Elements
pub mod Faults
pub mod Front
pub mod Groups
pub mod Lengths
pub mod Levels
pub mod Sides
pub mod Turns
pub mod Uses
