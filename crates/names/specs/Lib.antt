pub mod Kept
pub mod Once
pub mod Folding
