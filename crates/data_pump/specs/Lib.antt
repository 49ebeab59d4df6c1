pub mod Buffers
pub mod Counts
pub mod Downloads
pub mod Runs
pub mod Uploads
pub mod WireText
