pub mod Alike
pub mod Rooms
pub mod HeapWrites
pub mod Runs
pub mod Walking
