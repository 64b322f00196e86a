-- The direct parent of a mailbox that appears or goes, proved of the definitions.
pub mod Names
pub mod Rows
pub mod Lines
pub mod Owed
pub mod Unseen
