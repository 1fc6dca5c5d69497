pub mod Stretches
pub mod Pouring
pub mod Determined
