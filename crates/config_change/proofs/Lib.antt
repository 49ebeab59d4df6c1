pub mod KeptRows
pub mod Places
pub mod Refusing
