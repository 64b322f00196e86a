-- What the groups of NOTIFY come to, and the session that they set.
pub mod Tallies
pub mod Readings
pub mod Watched
pub mod Ladder
pub mod Examples
