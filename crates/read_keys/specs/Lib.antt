-- Definitions that the contracts of `read_keys` cite.
pub mod Table
pub mod Keys
pub mod Examples
