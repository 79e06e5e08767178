-- Laws of FLOW_MODs. Putting and Ranges are for this crate's own functions and laws.
pub mod Lengths
pub mod Frames
pub mod Reading
mod Ranges
mod Putting
