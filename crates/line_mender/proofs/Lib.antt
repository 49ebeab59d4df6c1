mod Taking
mod Passing
mod Aborting
