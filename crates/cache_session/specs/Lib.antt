pub mod Changing
pub mod Turns
pub mod Conditions
pub mod Walks
