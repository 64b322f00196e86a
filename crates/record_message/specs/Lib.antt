pub mod Met
pub mod Raised
pub mod Kinds
pub mod Arrivals
