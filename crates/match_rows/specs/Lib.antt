pub mod Picked
pub mod Notes
pub mod Marks
