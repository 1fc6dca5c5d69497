pub mod Steps
pub mod Runs
pub mod Exactly
pub mod Same
pub mod Determined
pub mod Refutations
