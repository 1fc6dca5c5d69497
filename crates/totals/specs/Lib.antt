pub mod Blocks
pub mod Question
pub mod Looked
