-- Every call leaves lawful memory lawful, and the end of a command leaves owed what it did not write.
pub mod Law
pub mod Rows
pub mod Raised
pub mod Clash
pub mod NameLaws
pub mod Ranges
pub mod Watching
pub mod Spoken
pub mod Kinds
pub mod Unasked
pub mod Calls
pub mod Rising
pub mod Dues
pub mod Owing
