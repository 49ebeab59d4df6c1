pub mod Faults
pub mod Rising
