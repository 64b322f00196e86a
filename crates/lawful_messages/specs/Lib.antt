pub mod Clashing
pub mod Owning
