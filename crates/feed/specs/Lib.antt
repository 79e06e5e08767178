-- The rules that a switch applied, and their FLOW_MODs.
pub mod Rules
pub mod Mods
