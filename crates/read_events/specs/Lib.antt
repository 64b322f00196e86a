-- What the readers of events answer, over the definitions of crate `model`.
pub mod Gathered
