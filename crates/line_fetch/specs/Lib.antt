pub mod Fetch
pub mod Items
