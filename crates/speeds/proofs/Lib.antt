pub mod Speeds
pub mod Refused
