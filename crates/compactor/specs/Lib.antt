-- What the contracts of `compactor` add to the notions of `meaning`.
pub mod Phases
pub mod Collects
