pub mod Bytes
pub mod Filled
pub mod Frame
pub mod Giving
pub mod Reading
pub mod Sealing
pub mod Standing
pub mod Steps
mod Cutting
pub mod Laid
pub mod Within
