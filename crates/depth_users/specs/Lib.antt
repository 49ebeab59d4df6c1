pub mod Owners
pub mod Shared
