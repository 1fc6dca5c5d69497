pub mod Types
pub mod Asks
pub mod Inside
pub mod Faults
pub mod Spare
