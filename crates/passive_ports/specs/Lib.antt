pub mod Resting
pub mod Opening
pub mod Bits
pub mod Ports
pub mod Connections
pub mod Refusals
