pub mod Shifts
pub mod Counted
pub mod Laws
pub mod Locked
pub mod Determined
