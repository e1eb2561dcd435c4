pub mod Fault
pub mod Folder
pub mod Folders
pub mod MemFolder
