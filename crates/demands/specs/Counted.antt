-- Change counters over streams, proved of the definitions.
pub mod Taken
pub mod Highest
pub mod Own
