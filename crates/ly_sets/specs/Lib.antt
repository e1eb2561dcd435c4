pub mod NumberSet
pub mod TermSet
pub mod SetMatrix
pub mod Rows
pub mod Union
