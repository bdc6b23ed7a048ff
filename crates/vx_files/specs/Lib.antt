pub mod InputText
pub mod Held
pub mod Effects
pub mod Laws
