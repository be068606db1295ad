-- Laws of headers that were read.
pub mod Reading
