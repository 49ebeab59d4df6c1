pub mod Changes
pub mod ChangeData
pub mod Lines
pub mod Reasons
pub mod Reports
