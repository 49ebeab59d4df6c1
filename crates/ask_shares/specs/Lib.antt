pub mod Leaves
pub mod Shares
pub mod Faults
