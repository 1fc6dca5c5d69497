pub mod Table
pub mod LowFirst
pub mod Family
pub mod Forms
pub mod Faults
pub mod Steps
