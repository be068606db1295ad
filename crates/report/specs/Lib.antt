-- What the contracts of `report` add to the notions of `meaning`.
pub mod Reports
