pub mod Finds
pub mod Laws
pub mod Searched
pub mod Runs
