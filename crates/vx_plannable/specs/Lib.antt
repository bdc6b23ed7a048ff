pub mod Plannable
