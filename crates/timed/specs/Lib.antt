-- What the timed loops leave in bytes and in their sums.
pub mod Turns
pub mod Bytes
