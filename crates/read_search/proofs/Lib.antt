-- Lemmas on plain values, for the proofs of this crate and of its callers.
pub mod Rows
mod Charsets
pub mod Replying
