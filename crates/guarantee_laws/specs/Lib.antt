pub mod Account
pub mod Example
pub mod Reached
pub mod SessionRounds
pub mod Sure
