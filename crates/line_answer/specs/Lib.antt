pub mod Sizes
pub mod Tagged
pub mod Effects
pub mod Answered
