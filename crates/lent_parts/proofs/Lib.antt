pub mod Gathering
mod ChangeLemmas
