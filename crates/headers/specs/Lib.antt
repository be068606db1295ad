-- What the contracts of `headers` add to the notions of `meaning`.
pub mod Paper
