pub mod DataRows
pub mod Plans
pub mod Tables
pub mod Waiting
