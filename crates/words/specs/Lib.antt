-- What the contracts of `words` add to the notions of `meaning`.
pub mod Paper
