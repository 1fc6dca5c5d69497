pub mod Small
pub mod Places
pub mod Gives
pub mod Keeps
pub mod Judged
pub mod Numbers
pub mod Refused
