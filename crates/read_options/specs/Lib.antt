pub mod Charsets
pub mod Heads
pub mod Returning
