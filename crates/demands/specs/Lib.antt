pub mod Isolation
pub mod Lasting
pub mod Counted
pub mod Parents
pub mod Reasons
pub mod Theorems
pub mod Ledger
