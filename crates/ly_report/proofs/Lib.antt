pub mod ConflictLemmas
pub mod LawLemmas
pub mod LineLemmas
pub mod NameLemmas
pub mod RemovedLemmas
pub mod ReportLemmas
