pub mod SameMachine
