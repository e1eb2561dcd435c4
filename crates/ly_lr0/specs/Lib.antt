pub mod Automaton
pub mod FaultNames
pub mod Laws
pub mod Private
pub mod Transitions
