pub mod EntryLemmas
pub mod LaneLemmas
