pub mod Reading
pub mod Reported
pub mod Writing
