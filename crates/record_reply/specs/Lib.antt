pub mod Left
pub mod Sized
pub mod Judged
