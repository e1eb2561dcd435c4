pub mod WalkLemmas
pub mod UnionLemmas
pub mod CountLemmas
pub mod StepLemmas
pub mod CloseLemmas
pub mod GraphLemmas
pub mod LeastLemmas
