pub mod Kinds
pub mod Letters
pub mod Placed
