pub mod Ordered
pub mod Refilling
pub mod Moving
pub mod Keeping
pub mod Walks
pub mod Scans
pub mod Chaining
pub mod Counting
