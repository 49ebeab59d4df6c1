pub mod BufferLemmas
pub mod DateLemmas
pub mod DeterminedLemmas
pub mod LineLemmas
pub mod ListingLemmas
pub mod NumberLemmas
pub mod QuoteLemmas
pub mod ReplyLemmas
