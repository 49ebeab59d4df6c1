mod GrantLemmas
mod KidLemmas
mod LimitsLemmas
pub mod MarkLemmas
mod NameLemmas
mod PartLemmas
pub mod RowLemmas
mod SameName
mod QueueLemmas
mod PairLemmas
mod OrderLemmas
mod OrderSteps
mod QueueSteps
pub mod TickLemmas
mod TwiceLemmas
mod WholeLemmas
pub mod FloorLemmas
pub mod PlainLemmas
pub mod PutLemmas
