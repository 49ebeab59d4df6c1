pub mod InputLaws
pub mod Keeping
pub mod Rows
pub mod Sources
