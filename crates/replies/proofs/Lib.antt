pub mod Writing
pub mod Status
pub mod Determined
pub mod ReadBack
pub mod Spare
