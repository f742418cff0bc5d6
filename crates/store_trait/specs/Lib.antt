pub mod Meaning
pub mod Keeping
pub mod Calls
pub mod Places
pub mod Held
pub mod Rooms
pub mod Heap
