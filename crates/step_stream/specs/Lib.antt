pub mod Cutting
pub mod Applying
pub mod Printing
