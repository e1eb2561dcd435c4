pub mod LineStartsLemmas
