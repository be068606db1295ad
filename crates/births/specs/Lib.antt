-- What the contracts of `births` add to the notions of `meaning` and `store`.
pub mod Births
