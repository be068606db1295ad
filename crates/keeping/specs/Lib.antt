-- What the contracts of `keeping` add to the notions of `meaning`.
pub mod Kept
