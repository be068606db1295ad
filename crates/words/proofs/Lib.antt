-- What follows from the promises of the functions, and what their proofs rest on.
pub mod Twice
pub mod Settled
