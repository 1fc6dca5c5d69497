pub mod Boundary
pub mod Refuses
