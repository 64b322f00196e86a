-- What the readers of sections answer, over the definitions of crate `model`.
pub mod Sections
