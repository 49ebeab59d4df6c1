mod Doing
mod Front
mod Payers
mod Writing
