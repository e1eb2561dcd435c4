pub mod NumberSetLemmas
pub mod RowLemmas
pub mod LaneLemmas
pub mod MatrixLemmas
