pub mod Frames
pub mod Plans
pub mod Check
pub mod Turns
