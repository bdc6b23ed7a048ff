pub mod Appending
mod StatusRows
