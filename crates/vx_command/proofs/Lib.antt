pub mod RunFound
pub mod CommandWords
pub mod WithWords
pub mod ProfileFound
pub mod SoakFound
pub mod CheckFound
mod SoakRows
mod CommandRows
mod SimRows
mod ExecRows
