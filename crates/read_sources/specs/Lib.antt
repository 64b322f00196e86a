-- Definitions that the contracts of `read_sources` cite.
pub mod Listing
pub mod Examples
