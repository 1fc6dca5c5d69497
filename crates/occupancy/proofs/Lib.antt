pub mod Small
pub mod Refused
