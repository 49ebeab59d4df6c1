pub mod Lanes
pub mod Shown
pub mod Decisions
pub mod Steps
pub mod Runs
pub mod Sums
