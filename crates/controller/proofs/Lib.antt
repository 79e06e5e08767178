-- Laws of the controller end. Chains, Places, Scanning, Shares, Steps and Walked are for this crate's own functions.
pub mod Within
pub mod Waiting
pub mod Staying
pub mod Taken
pub mod Deciding
pub mod Full
pub mod Numbering
pub mod Planned
pub mod Moves
pub mod Kept
pub mod Effects
pub mod Sent
pub mod Holding
pub mod Remade
mod Chains
mod Places
mod Scanning
mod Shares
mod Steps
mod Walked
