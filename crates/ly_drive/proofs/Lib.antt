pub mod FaultLemmas
pub mod LineLemmas
pub mod SetLabelLemmas
pub mod SoFarLemmas
pub mod WholeLemmas
