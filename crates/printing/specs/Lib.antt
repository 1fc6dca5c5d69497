pub mod Sheet
pub mod Shown
