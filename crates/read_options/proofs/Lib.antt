-- Lemmas on plain values, for the proofs of this crate.
mod Judging
mod Naming
