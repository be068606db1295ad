-- What the contracts of `store` and of the calls add to the notions of `meaning`.
pub mod Contract
pub mod Printed
