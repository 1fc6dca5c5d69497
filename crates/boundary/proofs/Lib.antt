pub mod Gives
pub mod Determined
pub mod Small
pub mod Places
pub mod Room
pub mod Numbers
pub mod Refused
