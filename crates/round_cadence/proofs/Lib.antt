mod Openings
mod LeastIntervals
mod Soon
