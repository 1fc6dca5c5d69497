pub mod Container
pub mod Laid
pub mod Faults
pub mod Places
pub mod Gaps
pub mod Packed
