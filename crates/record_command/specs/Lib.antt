pub mod Worded
pub mod Verbs
