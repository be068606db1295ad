-- What the contracts of `text` add to the notions of `meaning`.
pub mod Placed
