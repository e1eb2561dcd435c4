pub mod Derived
pub mod Kept
pub mod Measured
pub mod Printing
pub mod TokenDerived
pub mod Waiting
