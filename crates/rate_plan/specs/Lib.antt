pub mod Admission
pub mod Asked
pub mod Held
pub mod Plan
pub mod Refused
pub mod Second
pub mod Shared
pub mod Tens
