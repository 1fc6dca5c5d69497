pub mod Isolation
pub mod Settled
pub mod Pair
