-- Laws of the rehearsal. Inputs, Making and Putting are for this crate's own functions.
pub mod Fields
pub mod Turns
pub mod Telling
pub mod Decimals
pub mod Texts
pub mod Room
pub mod Cut
pub mod Named
pub mod Shares
pub mod Filling
pub mod Doing
mod Inputs
mod Making
mod Putting
