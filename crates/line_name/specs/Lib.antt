pub mod Bare
pub mod Laws
pub mod Runs
pub mod Examples
