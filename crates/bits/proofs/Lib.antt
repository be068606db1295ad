-- What follows from the definitions, in files named after what they say.
pub mod Words
pub mod SetIn
pub mod Ranges
pub mod LowestBit
pub mod SetPlaces
pub mod BitLoop
pub mod Halving
pub mod NextSet
