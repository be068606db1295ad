-- What follows from the definitions, in files named after what they say.
pub mod CollectLeaves
pub mod Settled
pub mod Listed
pub mod Sequence
pub mod Links
