pub mod Bits
pub mod Walks
pub mod Columns
pub mod Filling
pub mod Shift
pub mod Rows
pub mod Whole
