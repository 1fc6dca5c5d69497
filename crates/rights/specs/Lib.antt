pub mod Tables
pub mod Rights
pub mod Permits
pub mod Inside
pub mod Names
pub mod Faults
