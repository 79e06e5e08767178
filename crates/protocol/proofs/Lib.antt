-- The protocol over abstract contents and tables: what the ends do (Ends), all ends together (Worlds), what is claimed
-- of its runs (Claims), and its laws. Nobody has to believe these definitions: the whole-run claim names none of them.
pub mod Ends
pub mod Worlds
pub mod Claims
pub mod Families
pub mod Runs
pub mod Invariant
pub mod Steps
pub mod Kept
pub mod Vouched
pub mod Orders
pub mod Lasts
pub mod Growing
pub mod Rounds
