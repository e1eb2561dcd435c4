pub mod AgreementLemmas
pub mod AnswerLaws
pub mod AnswerLemmas
pub mod CleanLemmas
pub mod LabelLemmas
pub mod RowAgreementLemmas
pub mod RowTableLemmas
pub mod ScannerFaultLemmas
