-- Why a record was told or not, proved of the definitions.
pub mod Numbers
pub mod First
pub mod Overflow
pub mod Points
pub mod Table
pub mod Dues
pub mod Owed
pub mod Ends
pub mod Waiting
pub mod Reasoned
