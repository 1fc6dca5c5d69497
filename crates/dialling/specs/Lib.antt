pub mod Write
pub mod WellWritten
pub mod Faults
