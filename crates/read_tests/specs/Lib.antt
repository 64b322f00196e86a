-- Definitions that the contracts of `read_tests` cite.
pub mod Table
pub mod Sets
pub mod Begin
