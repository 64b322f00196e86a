-- The rules' `ME` is what the code leaves: theorems that rest on definitions of specs/.
pub mod Arriving
pub mod Receiving
