pub mod Chosen
pub mod Counts
pub mod Links
pub mod Places
