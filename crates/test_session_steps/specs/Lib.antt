pub mod Unsaid
