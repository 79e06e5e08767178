-- The tables of records agree.
pub mod Tables
