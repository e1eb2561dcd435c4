pub mod Explained
pub mod Findings
