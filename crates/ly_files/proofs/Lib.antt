pub mod ChangeLemmas
pub mod FolderLemmas
pub mod WritingLemmas
