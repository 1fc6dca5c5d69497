pub mod Plainly
pub mod Steps
pub mod Determined
pub mod Taken
