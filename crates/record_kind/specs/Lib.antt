pub mod Subjects
pub mod Serving
