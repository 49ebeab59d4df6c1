pub mod Entries
pub mod Letters
pub mod LineText
pub mod Lines
