pub mod OwnerLemmas
pub mod FairLemmas
