-- What the contracts of `walk` add to the notions of `meaning`.
pub mod Survey
