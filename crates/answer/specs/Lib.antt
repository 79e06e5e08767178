-- What all crates say their answers with, and the limits of a domain.
pub mod Ask
pub mod Limits
