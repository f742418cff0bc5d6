pub mod Calls
pub mod Faults
pub mod State
pub mod Source
