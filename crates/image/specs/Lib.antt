-- What the contracts of `image` add to the notions of `meaning`.
pub mod Judging
