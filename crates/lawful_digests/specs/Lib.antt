pub mod Distinct
pub mod Digest
pub mod Guessing
