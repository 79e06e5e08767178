-- Laws of the notation's tables, names and pairs.
pub mod Fits
pub mod Places
pub mod Rows
pub mod Naming
pub mod Givers
