pub mod Counting
pub mod Names
pub mod Reported
pub mod Rooms
