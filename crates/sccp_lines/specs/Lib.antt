pub mod Sccp
