-- What the contracts of `bits` add to the notions of `meaning`.
pub mod Ranges
pub mod SetBits
