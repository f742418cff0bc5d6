pub mod Changing
pub mod Flat
pub mod Keys
pub mod Nexts
pub mod Ordered
pub mod Rewriting
