pub mod NotifyNone
pub mod Read
