-- The rehearsal: the world, a script's records, what each does, its effect in a world, the lines of an
-- input, and their bytes; what the code stores; and what tellers say of each record.
pub mod Limits
pub mod Worlds
pub mod Records
pub mod Steps
pub mod Effects
pub mod Lines
pub mod Scripts
pub mod Storing
pub mod Deeds
