pub mod Steps
pub mod Served
pub mod Runs
pub mod Isolated
