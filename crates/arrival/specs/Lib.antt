pub mod Calls
pub mod Totals
pub mod Pair
