-- What follows from the definitions, in files named after what they say.
pub mod Settling
pub mod Preparing
pub mod Collecting
pub mod Settled
