pub mod Write
pub mod Compact
pub mod Faults
pub mod Inside
