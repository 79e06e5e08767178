-- Laws of tests and of questions, for every crate above.
pub mod Bools
pub mod Asked
