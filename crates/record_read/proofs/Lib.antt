-- Laws on plain values, for the proofs of this crate.
mod Halves
mod Turns
mod Whole
