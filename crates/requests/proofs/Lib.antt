pub mod Steps
pub mod ByRow
pub mod Found
pub mod Agree
pub mod Sound
pub mod Said
pub mod Determined
pub mod Refutations
