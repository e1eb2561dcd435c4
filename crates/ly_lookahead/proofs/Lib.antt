pub mod DirectLemmas
pub mod FromRelations
pub mod LookaheadLemmas
pub mod ReadLemmas
pub mod RowLemmas
pub mod SetLemmas
pub mod ToRelations
