-- Definitions for contracts of private functions: what is written for a byte, and how many bytes a printed leaf takes.
-- No public contract depends on them.
pub mod ByteForm
pub mod Room
