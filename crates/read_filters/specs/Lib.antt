-- What the contracts cite: names that are counted, scopes and filters, names that are kept, and worked examples.
pub mod Counted
pub mod Scopes
pub mod Keeping
pub mod Examples
