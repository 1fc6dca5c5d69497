pub mod Types
pub mod Reading
pub mod Given
pub mod Judged
pub mod Places
pub mod Marks
pub mod Determined
pub mod Refutations
