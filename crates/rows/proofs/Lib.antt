pub mod Legality
pub mod Determined
pub mod Rules
pub mod States
