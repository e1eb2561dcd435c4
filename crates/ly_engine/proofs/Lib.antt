pub mod AnswerFaultLemmas
pub mod GivenTokenLemmas
pub mod SpanLemmas
