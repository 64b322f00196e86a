-- Definitions that the contracts of `step_record` cite, and laws about them.
pub mod Kinds
