pub mod Showing
pub mod Kinds
