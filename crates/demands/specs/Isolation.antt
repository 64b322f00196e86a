-- Demand 3, proved of the definitions.
pub mod Erase
pub mod Alike
pub mod Spoken
pub mod Left
pub mod Asked
pub mod Kinds
pub mod Off
pub mod Calls
pub mod Streams
