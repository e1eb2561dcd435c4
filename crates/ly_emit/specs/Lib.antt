pub mod Endless
pub mod FitsFile
pub mod Following
pub mod Laws
pub mod Private
pub mod SetOf
pub mod Tables
