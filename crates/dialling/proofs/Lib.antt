pub mod Steps
pub mod Laws
pub mod Writing
pub mod WriteExactly
pub mod Judged
pub mod Back
pub mod Samples
pub mod Determined
