pub mod Appending
pub mod Fetching
pub mod Scanning
pub mod Windows
