mod Masks
pub mod Products
mod Factors
mod NearPlaces
pub mod Congruences
pub mod Residues
mod Narrows
mod NarrowRuns
mod Example
mod Stays
pub mod Staged
pub mod Ranges
pub mod Equal
pub mod Tests
pub mod Operations
pub mod Cells
pub mod Accesses
pub mod SumForms
pub mod Forms
pub mod Behind
pub mod Spots
pub mod RunFacts
mod Turns
mod Entries
mod Free
