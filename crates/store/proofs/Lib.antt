-- What follows from the definitions, in files named after what they say.
pub mod TopInHeap
