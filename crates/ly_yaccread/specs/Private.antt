-- Cited by contracts of private functions: intermediate results of the reader of yacc files. No public contract depends
-- on it.
pub mod Read
pub mod Refusals
pub mod Words
