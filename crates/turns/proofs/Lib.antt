pub mod Turned
pub mod Determined
pub mod Kept
pub mod Fits
