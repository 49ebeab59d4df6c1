pub mod Lending
pub mod Seeing
pub mod Reporting
pub mod Breaking
