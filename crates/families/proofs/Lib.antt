pub mod Rewriting
pub mod Calling
pub mod Roaming
