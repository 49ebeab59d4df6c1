pub mod Answers
pub mod Escapes
pub mod Exchanges
pub mod Hosts
pub mod Metrics
pub mod Rows
pub mod Shown
pub mod Timing
