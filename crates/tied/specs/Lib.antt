-- What the notation's table says beside what its readers have: sizes, kinds and places of fields.
pub mod Sizes
pub mod Places
