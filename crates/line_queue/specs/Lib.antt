pub mod Queues
pub mod Laws
pub mod Rounds
pub mod Notes
