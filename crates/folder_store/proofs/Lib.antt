pub mod Places
pub mod RealMachine
pub mod Rising
pub mod Walking
pub mod Names
pub mod EntryNames
pub mod Entries
pub mod Serving
