pub mod Laws
pub mod Slashes
