pub mod KeptSteps
pub mod InterpreterSteps
pub mod InterpreterLoops
