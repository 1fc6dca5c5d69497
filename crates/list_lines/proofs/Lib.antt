pub mod Stepping
pub mod Exactly
pub mod Determined
