-- Laws of the switch end. Bits, Chains, Emptied and Steps are for this crate's own functions.
pub mod Within
pub mod Passing
pub mod Taken
pub mod Sent
pub mod Moves
pub mod Kept
pub mod Effects
pub mod Agreement
pub mod Once
pub mod Senders
pub mod Latest
mod Bits
mod Chains
mod Emptied
mod Steps
