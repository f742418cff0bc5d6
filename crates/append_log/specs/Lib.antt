pub mod Current
pub mod Standing
pub mod Calls
pub mod Fetching
