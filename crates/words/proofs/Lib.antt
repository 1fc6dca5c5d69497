pub mod Steps
pub mod Bounds
pub mod Determined
pub mod Refutations
pub mod Into
