pub mod Headed
pub mod Finding
