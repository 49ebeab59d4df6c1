mod Unleased
mod Crowds
mod Leasing
mod Givings
pub mod BitLemmas
pub mod PortLemmas
pub mod CountLemmas
pub mod ConnectionLemmas
