pub mod TreeCodes
pub mod Held
pub mod Orders
pub mod Tree
pub mod Codes
pub mod InMemory
pub mod Laws
pub mod Uploads
