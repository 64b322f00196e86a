-- Laws over plain values, which the proofs of the functions cite.
pub mod Rows
pub mod Scoping
pub mod Places
pub mod Storing
pub mod Selecting
pub mod Filling
pub mod Pairs
