pub mod Halves
pub mod Contents
pub mod Read
pub mod WellFormed
pub mod Faults
