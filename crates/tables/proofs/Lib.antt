-- What follows from the definitions, in files named after what they say.
pub mod Filling
pub mod Judging
pub mod Searching
pub mod Settled
