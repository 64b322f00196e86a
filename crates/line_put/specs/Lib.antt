pub mod Wrote
pub mod Put
pub mod Writes
pub mod Decimals
pub mod Says
pub mod Heard
