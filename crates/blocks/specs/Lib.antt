-- What the contracts of `blocks` add to the notions of `meaning`.
pub mod Cursors
