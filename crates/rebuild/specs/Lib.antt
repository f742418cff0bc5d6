pub mod Listing
pub mod Rebuilt
pub mod Rows
pub mod Taking
pub mod Reading
