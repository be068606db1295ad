-- Laws that the proofs of the functions use.
pub mod FirstPlace
pub mod InBlocks
pub mod KeptMarks
pub mod PassingBits
