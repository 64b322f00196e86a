pub mod Saying
pub mod Coded
pub mod Speaking
