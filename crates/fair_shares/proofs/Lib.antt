pub mod AskedLemmas
pub mod SameUsers
pub mod UserNodes
pub mod UserLemmas
pub mod LargeUsers
