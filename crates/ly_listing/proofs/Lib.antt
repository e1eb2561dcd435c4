pub mod ListingLemmas
pub mod MarkLemmas
pub mod RoomLemmas
pub mod SpotLemmas
pub mod TokenLemmas
pub mod WritingLemmas
