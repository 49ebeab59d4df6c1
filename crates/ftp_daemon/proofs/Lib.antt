pub mod Lists
pub mod KeptLemmas
mod Counted
mod Sameness
