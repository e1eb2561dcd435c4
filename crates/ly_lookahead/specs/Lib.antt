pub mod Laws
pub mod Lookaheads
pub mod Private
