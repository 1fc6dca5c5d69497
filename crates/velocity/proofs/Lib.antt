pub mod Double
pub mod Exactly
pub mod Glued
pub mod Bits
pub mod Back
pub mod Judged
pub mod Refutations
