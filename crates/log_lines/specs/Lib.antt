pub mod Kinds
pub mod Lines
pub mod Moments
pub mod Names
pub mod Numbers
pub mod ReadBack
pub mod Words
