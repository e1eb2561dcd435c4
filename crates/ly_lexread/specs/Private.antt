-- Definitions for contracts of private functions: the intermediate results of the reader of lex files. No public
-- contract depends on them.
pub mod Definitions
pub mod File
pub mod Names
pub mod Rules
pub mod Statements
pub mod Words
