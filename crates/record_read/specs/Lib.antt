pub mod Kinds
pub mod Layouts
pub mod Reading
pub mod Laws
pub mod Examples
