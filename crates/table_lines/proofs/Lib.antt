pub mod Leaving
pub mod Answered
pub mod Determined
