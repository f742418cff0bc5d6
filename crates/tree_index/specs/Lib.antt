pub mod Index
pub mod Kept
pub mod Rows
pub mod Starts
