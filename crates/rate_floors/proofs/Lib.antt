mod AskSums
mod CarryLemmas
mod FitLemmas
mod FloorLemmas
mod KeptLemmas
pub mod PlaceLemmas
mod PlainLemmas
mod RefusalLemmas
mod SumLemmas
