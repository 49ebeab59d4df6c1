pub mod Fair
pub mod Owners
pub mod Wants
