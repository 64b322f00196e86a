-- Lemmas on plain values, for the proofs of this crate.
mod Table
mod Ends
mod Pieces
mod Digits
mod Strings
mod Filling
pub mod Chains
mod Days
mod Joining
mod Weights
