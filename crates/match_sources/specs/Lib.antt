pub mod Admitting
pub mod Picking
