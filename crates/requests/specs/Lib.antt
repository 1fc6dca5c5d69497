pub mod Words
pub mod Along
