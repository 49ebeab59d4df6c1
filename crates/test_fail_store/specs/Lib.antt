pub mod FailLaws
pub mod Failing
