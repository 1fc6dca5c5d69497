pub mod Near
pub mod Outcome
pub mod Determined
pub mod Refutations
