pub mod Searches
pub mod Meaning
pub mod Given
pub mod Judged
