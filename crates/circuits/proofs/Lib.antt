pub mod Numbers
pub mod Small
pub mod Refused
