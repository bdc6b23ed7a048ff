pub mod Cycling
