pub mod CopyStands
pub mod CopyLaws
pub mod CopiesExample
