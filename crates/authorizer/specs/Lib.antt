pub mod Changes
pub mod Numbers
pub mod Renumbered
pub mod Stored
pub mod Users
