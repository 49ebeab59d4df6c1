pub mod Accepting
pub mod Boards
pub mod Descriptors
pub mod Draining
pub mod Reloading
pub mod SameRates
pub mod Unheld
