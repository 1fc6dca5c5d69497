pub mod Reported
pub mod Fits
pub mod Determined
