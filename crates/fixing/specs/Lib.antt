-- What the contracts of `fixing` add to the notions of `meaning`.
pub mod Fixable
