pub mod Roaming
