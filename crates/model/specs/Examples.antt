-- Worked examples, each by computation.
pub mod Stream
pub mod Session
pub mod Cases
pub mod Astray
pub mod Waiting
pub mod Pair
pub mod Pairs
pub mod Refusing
pub mod Rfc
pub mod Fates
pub mod Counters
pub mod Parent
pub mod Why
pub mod WhyText
