pub mod Spans
pub mod One
pub mod Parts
pub mod Judged
pub mod Faulted
pub mod Determined
pub mod Refutations
