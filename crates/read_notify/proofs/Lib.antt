-- Lemmas on plain values, for the proofs of this crate.
mod Rows
mod Counting
mod Grouping
mod Filling
mod Storing
mod Lending
mod Watching
