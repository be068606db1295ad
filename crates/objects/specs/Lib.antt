-- What the contracts of `objects` add to the notions of `meaning`.
pub mod Examined
