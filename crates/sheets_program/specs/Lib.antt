pub mod Causes
pub mod Endings
pub mod Runs
