-- What the contracts of `search` add to the notions of `meaning`.
pub mod Search
