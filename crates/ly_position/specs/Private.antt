-- Definitions for contracts of private functions: the plan, the program and its links. No public contract depends on
-- them.
pub mod Assembled
pub mod Chain
pub mod Compile
pub mod Grown
pub mod Link
pub mod Plain
pub mod Plan
pub mod Program
pub mod Reach
pub mod Slim
pub mod Starts
pub mod Targets
