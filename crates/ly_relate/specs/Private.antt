pub mod Gotos
pub mod Groups
pub mod Pieces
pub mod Reads
pub mod Walks
