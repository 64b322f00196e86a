-- What the readers of fetch attributes answer, over the definitions of crate `model`.
pub mod Asked
