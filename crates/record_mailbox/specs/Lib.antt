pub mod Putting
pub mod Rights
pub mod Subscriptions
pub mod Renaming
pub mod Creating
pub mod Deleting
