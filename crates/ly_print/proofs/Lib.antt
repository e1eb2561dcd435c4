mod BlockLemmas
pub mod DeviceLemmas
pub mod JsonLemmas
pub mod RoomLemmas
pub mod TextLemmas
pub mod TextWriterLemmas
