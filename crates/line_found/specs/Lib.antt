pub mod Line
pub mod Writing
pub mod Telling
pub mod Room
pub mod Commanded
