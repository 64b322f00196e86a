pub mod Fields
pub mod Neighbours
