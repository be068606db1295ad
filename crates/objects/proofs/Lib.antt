-- Laws that the proofs of the functions use, and what follows from the promises.
pub mod Sizes
pub mod Surveying
pub mod Judging
pub mod Settled
