-- What the contracts of `orders` add to the notions of `meaning`.
pub mod Entries
