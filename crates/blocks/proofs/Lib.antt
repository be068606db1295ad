-- Laws that the proofs of the functions use, and what follows from the promises.
pub mod DroppedBits
pub mod CursorMoves
pub mod WordsMoved
pub mod StepsRun
