pub mod Planner
pub mod Outcome
