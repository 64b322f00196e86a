pub mod Kept
pub mod Called
pub mod Hosts
pub mod Accounted
pub mod Isolated
pub mod Layout
