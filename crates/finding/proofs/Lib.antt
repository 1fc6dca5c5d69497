pub mod Given
pub mod Spots
pub mod Exactly
pub mod Judged
pub mod Places
pub mod Determined
pub mod Refutations
