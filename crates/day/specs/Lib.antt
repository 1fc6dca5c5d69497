pub mod Hub
pub mod Day
