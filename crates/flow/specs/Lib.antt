-- Rules, flow tables, what a rule does to them, and lookup; in the order in which they build on each other. Places is for
-- inner functions.
pub mod Rules
pub mod Tables
pub mod Changes
pub mod Lookups
pub mod Places
