-- Lemmas on plain values, for the proofs of this crate and of those that answer commands.
mod Behind
pub mod Wholes
