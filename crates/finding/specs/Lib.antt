pub mod Find
pub mod Told
pub mod FoundAt
pub mod Faults
