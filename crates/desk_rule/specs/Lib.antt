pub mod Lanes
pub mod Shown
pub mod Events
pub mod Steps
