pub mod ArithmeticSteps
