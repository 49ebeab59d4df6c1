pub mod Order
pub mod Boards
pub mod Turns
pub mod Ends
pub mod Passes
pub mod Transfers
pub mod Runs
pub mod Works
