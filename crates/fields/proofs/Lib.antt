pub mod Typed
pub mod Determined
