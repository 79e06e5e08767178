-- The notation of a rehearsal: its limits, the fields of records, the kinds of records in one table, names, and tags by
-- the key of a pair.
pub mod Limits
pub mod Text
pub mod Fields
pub mod Kinds
pub mod Names
pub mod Pairs
