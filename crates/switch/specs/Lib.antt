-- The switch end: slots and the quorum, states and their limits, a share taken, the calls, and lists of calls.
pub mod Slots
pub mod States
pub mod Shares
pub mod Receiving
pub mod Raising
pub mod Writing
pub mod Lookups
pub mod Calls
