pub mod Asked
pub mod Faults
pub mod Unshared
pub mod Users
