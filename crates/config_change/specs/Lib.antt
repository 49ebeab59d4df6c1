pub mod Fixed
pub mod Named
pub mod Past
pub mod Renumbered
pub mod Words
