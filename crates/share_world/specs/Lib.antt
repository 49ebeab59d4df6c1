pub mod Kept
pub mod Laws
pub mod Performed
pub mod Limited
pub mod Codes
pub mod Shares
pub mod Stopped
