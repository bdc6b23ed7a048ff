pub mod Insides
