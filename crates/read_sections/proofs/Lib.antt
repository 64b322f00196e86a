-- Lemmas on plain values, for the proofs of this crate.
mod Parts
mod Fields
