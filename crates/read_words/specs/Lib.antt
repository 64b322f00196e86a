-- Definitions that the contracts of `read_words` cite.
pub mod Words
