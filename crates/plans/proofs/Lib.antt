pub mod Frames
pub mod Seen
pub mod Exactly
pub mod Hub
pub mod Turns
pub mod Words
pub mod Steps
