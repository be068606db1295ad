-- What the contracts of `runs` add to the notions of `meaning`.
pub mod Runs
