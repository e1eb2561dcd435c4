pub mod BeforeLemmas
pub mod ByteSetLemmas
pub mod CellLemmas
pub mod EscapeLemmas
pub mod GapLemmas
pub mod KeyLemmas
pub mod LexedLemmas
pub mod LimitsLemmas
pub mod ListLemmas
pub mod LiteralLemmas
pub mod LookedUpLemmas
pub mod MemberLemmas
pub mod NameLemmas
pub mod PigeonholeLemmas
pub mod PlaceLemmas
pub mod SparseSetLemmas
pub mod WordBeforeLemmas
mod WordLemmas
