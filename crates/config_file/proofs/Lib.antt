pub mod Helds
pub mod KnownKeys
pub mod Pairs
pub mod Pushes
pub mod Refusals
