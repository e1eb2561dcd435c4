pub mod GroupLemmas
pub mod GroupsLemmas
pub mod KeyLemmas
pub mod ToldLemmas
