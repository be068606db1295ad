-- What the promises to C settle.
pub mod Settled
pub mod Promises
