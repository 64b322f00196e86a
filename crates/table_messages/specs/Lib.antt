pub mod Words
pub mod Laid
pub mod Taken
pub mod Joined
pub mod Counted
pub mod Found
