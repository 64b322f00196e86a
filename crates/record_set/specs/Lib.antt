pub mod Listed
pub mod Owing
pub mod Setting
