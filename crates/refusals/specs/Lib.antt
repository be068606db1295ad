-- What the contracts of `refusals` add to the notions of `meaning`.
pub mod Paper
