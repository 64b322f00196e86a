-- The lemmas that the proofs of `read_sources` cite.
pub mod Keeping
pub mod Folding
