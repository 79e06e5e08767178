-- What the checks say of small evenings, and the laws of the checks.
pub mod Evenings
pub mod Verdicts
pub mod Fed
pub mod Falling
pub mod Explored
pub mod Ported
pub mod Ways
pub mod Loops
pub mod Classes
pub mod Theorem
pub mod Complete
pub mod Lasts
pub mod InFlight
pub mod Worked
pub mod Known
pub mod Reached
