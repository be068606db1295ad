-- What the contracts of `tables` add to the notions of `meaning`.
pub mod Paper
pub mod Filled
