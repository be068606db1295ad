-- Laws of fallible answers.
pub mod OneToOne
