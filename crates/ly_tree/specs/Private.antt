pub mod Grown
pub mod Headed
pub mod OfBytes
pub mod Printing
