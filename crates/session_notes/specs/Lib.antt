pub mod Courses
pub mod Levels
pub mod Moments
pub mod Stores
pub mod Transfers
pub mod Words
