pub mod Sums
pub mod Recounted
pub mod Counting
pub mod Spans
pub mod Agree
pub mod Judged
pub mod Determined
pub mod Refutations
