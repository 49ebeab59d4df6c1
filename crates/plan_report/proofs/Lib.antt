pub mod Reported
pub mod Rows
