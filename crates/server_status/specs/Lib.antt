pub mod Fits
pub mod Members
pub mod ReadBack
pub mod StatusData
pub mod StatusRead
pub mod Tables
