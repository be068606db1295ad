-- What follows from the definitions, in files named after what they say.
pub mod Accepted
pub mod Copied
pub mod Settled
