pub mod Ending
pub mod Served
pub mod Taken
