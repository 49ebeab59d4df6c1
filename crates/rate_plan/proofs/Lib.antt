pub mod AdmitLemmas
pub mod OrderLemmas
pub mod Pushed
pub mod SecondTree
pub mod ShareLemmas
pub mod TenLemmas
pub mod UserWants
