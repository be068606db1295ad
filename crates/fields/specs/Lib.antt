-- What the contracts of `fields` add to the notions of `meaning` and `store`.
pub mod Fields
