pub mod Faults
pub mod InRow
pub mod Kinds
pub mod Nodes
pub mod Rebuilt
pub mod Stages
