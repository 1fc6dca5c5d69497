pub mod Run
pub mod Params
