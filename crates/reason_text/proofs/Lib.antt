-- Laws of places, for the proofs of this crate.
mod Places
