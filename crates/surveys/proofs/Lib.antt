pub mod Looks
pub mod Refutations
pub mod Surveyed
