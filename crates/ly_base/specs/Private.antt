-- Definitions for contracts of private functions: the intermediate results of readers. No public contract depends on
-- them.
pub mod Escapes
pub mod Names
