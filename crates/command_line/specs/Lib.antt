pub mod Commands
pub mod Given
pub mod Numbers
pub mod Stated
pub mod Timed
pub mod Usages
pub mod Ways
