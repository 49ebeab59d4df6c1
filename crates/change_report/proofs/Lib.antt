mod Depths
mod Joined
pub mod Steps
