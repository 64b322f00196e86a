pub mod Shift
pub mod Changing
pub mod Telling
pub mod Counting
pub mod Dropping
pub mod Fitting
pub mod Announcing
pub mod Room
