pub mod Carried
pub mod Kept
pub mod Plain
pub mod Promises
pub mod Refusals
