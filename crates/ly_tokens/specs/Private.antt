-- Definitions for the contracts of private functions. No public contract depends on them.
pub mod Clean
pub mod FileAnswers
pub mod Labels
pub mod RowTable
