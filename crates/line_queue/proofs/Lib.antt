pub mod Lines
pub mod Accounts
