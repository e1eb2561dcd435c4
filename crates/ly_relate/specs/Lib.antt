pub mod Private
pub mod Related
pub mod Relations
pub mod Values
