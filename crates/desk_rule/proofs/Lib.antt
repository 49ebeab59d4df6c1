pub mod Keeps
pub mod Events
