pub mod Small
pub mod Night
