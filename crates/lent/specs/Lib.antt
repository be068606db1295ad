-- What the contracts of `lent` add to the notions of `meaning` and `store`.
pub mod Lent
