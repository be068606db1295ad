-- Laws of the record that C keeps.
pub mod KeptStore
