-- OpenFlow's numbers, the FLOW_MOD of a rule, and a frame with one written. Reading is for laws.
pub mod Standard
pub mod FlowMods
pub mod Writing
pub mod Reading
