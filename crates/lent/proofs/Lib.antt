-- What the promises of this crate settle.
pub mod Promised
