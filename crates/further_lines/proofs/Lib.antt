pub mod Turned
pub mod Determined
