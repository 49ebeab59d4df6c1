pub mod Decides
pub mod Keeping
pub mod Maps
pub mod Numbering
pub mod Outcomes
pub mod Owned
pub mod Renumbering
