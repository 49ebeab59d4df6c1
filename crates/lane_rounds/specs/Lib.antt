pub mod Ends
pub mod Awaits
pub mod Dues
pub mod Gates
