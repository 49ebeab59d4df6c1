pub mod Columns
pub mod Rates
