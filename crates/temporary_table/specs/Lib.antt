pub mod Queue
pub mod Places
pub mod Walking
pub mod Buckets
pub mod Searching
pub mod Scanning
pub mod Chains
