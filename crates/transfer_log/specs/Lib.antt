pub mod Lines
pub mod Moments
pub mod Names
pub mod Places
