pub mod Digraph
pub mod Graph
pub mod Least
pub mod Walk
pub mod Search
