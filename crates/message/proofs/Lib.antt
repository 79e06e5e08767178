-- Laws of messages. Frames is for this crate's own functions.
pub mod Lengths
pub mod Ends
pub mod Lent
pub mod Written
pub mod Inverse
pub mod Stores
mod Frames
