pub mod Beneath
pub mod Elements
pub mod LastSlash
pub mod Lines
pub mod Parts
pub mod Splits
pub mod Texts
pub mod Walks
