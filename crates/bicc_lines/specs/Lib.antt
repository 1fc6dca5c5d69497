pub mod Bicc
