pub mod Automaton
pub mod Classes
pub mod Dfa
pub mod FaultNames
pub mod Laws
pub mod Private
pub mod RuleSets
pub mod Subsets
