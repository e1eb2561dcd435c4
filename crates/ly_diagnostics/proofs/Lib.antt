pub mod IndentedLemmas
