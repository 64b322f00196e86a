pub mod Upper
pub mod Found
