-- Laws of the rules that a switch applied, and of their FLOW_MODs. Gathered and Putting are for this crate's own
-- functions.
pub mod Cases
pub mod Carried
pub mod Tables
pub mod Cut
pub mod Feeding
mod Gathered
mod Putting
