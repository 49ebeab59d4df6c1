pub mod Cells
pub mod Heads
pub mod Held
pub mod Lines
pub mod Looks
pub mod Rates
pub mod Tables
pub mod Widths
