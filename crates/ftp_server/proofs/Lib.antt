pub mod Last
pub mod Named
pub mod Served
