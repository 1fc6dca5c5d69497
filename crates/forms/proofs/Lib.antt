pub mod Keys
pub mod Determined
pub mod Refutations
