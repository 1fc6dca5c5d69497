pub mod Said
pub mod Digits
pub mod Words
pub mod Into
