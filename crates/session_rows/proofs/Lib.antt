pub mod Floors
mod OneMore
mod Runs
