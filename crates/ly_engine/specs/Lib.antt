pub mod AnswerFault
pub mod GivenTokens
pub mod Spans
