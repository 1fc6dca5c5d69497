pub mod Pours
pub mod ReadBack
pub mod Determined
