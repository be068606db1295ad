-- What C is told, on paper.
pub mod Out
