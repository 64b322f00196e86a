-- The rules' reason, by the code's tests.
pub mod Judging
