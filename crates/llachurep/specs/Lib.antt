pub mod Gives
pub mod Faults
