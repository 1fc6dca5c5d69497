pub mod Spread
pub mod Determined
