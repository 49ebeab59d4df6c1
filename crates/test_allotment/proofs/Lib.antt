mod Rooms
mod Turns
mod Steps
mod Runs
