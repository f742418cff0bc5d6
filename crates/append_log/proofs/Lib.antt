pub mod Steps
pub mod Fetched
pub mod Holding
pub mod Places
pub mod Ending
pub mod Stamped
