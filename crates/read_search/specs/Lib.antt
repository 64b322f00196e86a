-- Definitions that the contracts of `read_search` cite.
pub mod Sourced
pub mod Parts
pub mod Searched
pub mod Judged
pub mod Examples
