pub mod Intervals
pub mod Beats
pub mod Cadences
pub mod Closed
pub mod Crowds
