pub mod Counting
pub mod LineLemmas
mod TextRows
pub mod Numbers
pub mod Advance
mod Taken
pub mod StepLemmas
pub mod OperationLemmas
pub mod ReadLemmas
pub mod FieldsAgain
pub mod OperationsAgain
pub mod LinesAgain
pub mod ProgramAgain
pub mod WordsAgain
pub mod RoundTrip
