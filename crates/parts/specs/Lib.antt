pub mod Spans
pub mod Overlap
