pub mod Coming
pub mod Laws
pub mod Raising
