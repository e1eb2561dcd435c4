pub mod Derivations
pub mod FaultNames
pub mod Items
pub mod Laws
pub mod Private
pub mod Reduction
