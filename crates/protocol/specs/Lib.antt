-- What the whole-run claim rests on here: families, runs, sorted numbers. The protocol over abstract contents serves
-- proofs alone, and stands in proofs/.
pub mod Families
pub mod Runs
pub mod Orders
