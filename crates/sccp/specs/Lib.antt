pub mod Table
pub mod Read
pub mod WellFormed
pub mod Write
pub mod Faults
