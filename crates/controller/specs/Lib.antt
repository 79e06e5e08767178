-- The controller end: undone changes, states and their limits, acknowledgements and events, what is ready, the calls,
-- decisions, lists of calls, what a call moves, and for tellers why nothing is ready.
pub mod Changes
pub mod States
pub mod Acknowledgements
pub mod Receiving
pub mod Readiness
pub mod Writing
pub mod Decisions
pub mod Calls
pub mod Moving
pub mod Awaiting
