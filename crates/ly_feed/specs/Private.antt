pub mod Feeding
pub mod Labels
pub mod Running
pub mod ScannerOf
pub mod Told
pub mod TokenSpans
pub mod Window
