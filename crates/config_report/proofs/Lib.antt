pub mod Depths
pub mod Joined
pub mod Reported
pub mod Pushed
