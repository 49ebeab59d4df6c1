pub mod Placed
pub mod Places
pub mod Pushed
pub mod Refusing
pub mod Shared
