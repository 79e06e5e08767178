-- Laws of turns.
pub mod Turning
