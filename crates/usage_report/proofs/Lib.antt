pub mod Added
pub mod Chained
pub mod Cut
pub mod Depths
pub mod Looked
pub mod RowsShown
pub mod Seen
pub mod Taken
