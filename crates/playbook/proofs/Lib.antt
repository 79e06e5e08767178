-- Laws of playbooks. Marked to Held are for this crate alone.
pub mod Sound
pub mod Apart
pub mod Questions
pub mod Spans
pub mod Few
pub mod Kept
pub mod Listed
pub mod Printed
pub mod Exact
pub mod Front
pub mod Ranges
pub mod Refusals
pub mod OneForm
mod Marked
mod Walked
mod Gathered
mod Steps
mod Past
mod Turns
mod Held
