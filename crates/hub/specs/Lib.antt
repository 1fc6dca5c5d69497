pub mod Rows
pub mod Replies
pub mod Acts
pub mod Desk
pub mod Faults
pub mod Rules
pub mod Arrival
pub mod Deeds
