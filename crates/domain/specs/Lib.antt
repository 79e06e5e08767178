-- The whole-run claim, in document 01's order: what is fixed before a run, its calls, the run and its premises, the
-- agreed changes, the ideal controller, full rounds, the claim, and what is claimed of strays beside it.
pub mod Settings
pub mod Calls
pub mod Premises
pub mod Agreement
pub mod Ideals
pub mod Rounds
pub mod Claim
pub mod Vouched
