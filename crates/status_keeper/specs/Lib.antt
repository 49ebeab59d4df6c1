pub mod Accounts
pub mod Endings
pub mod Looks
pub mod Made
pub mod Shown
