pub mod Addresses
pub mod Back
pub mod Depths
pub mod Faults
pub mod Lists
pub mod Texts
