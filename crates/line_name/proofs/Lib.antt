-- What is written for a name: theorems that rest on definitions of specs/.
pub mod Theorems
