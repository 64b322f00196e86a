-- A command line as the code answers it.
pub mod Judging
