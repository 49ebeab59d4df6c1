pub mod Stores
pub mod Ending
pub mod Scripting
