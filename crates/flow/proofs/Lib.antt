-- Laws of flow tables. Those that are not pub are for this crate's own functions.
pub mod Order
pub mod Actions
pub mod Acts
pub mod Kept
pub mod Keys
pub mod Longest
pub mod Ports
pub mod After
mod Places
mod Padded
mod Tests
mod Moves
mod Bests
mod Searched
