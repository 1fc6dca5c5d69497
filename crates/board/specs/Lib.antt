pub mod Board
pub mod Faults
pub mod Arrival
pub mod Names
