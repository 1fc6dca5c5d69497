pub mod Quotient
pub mod Steps
pub mod Patterns
pub mod Glued
pub mod Exactly
pub mod Best
pub mod Meant
