pub mod Velocity
pub mod Told
pub mod Rules
pub mod Faults
