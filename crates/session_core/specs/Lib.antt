pub mod Entering
pub mod Events
pub mod Rows
