-- What the check is lent, as lists and networks; marks as numbers made; verdicts; what the check answers; agreed changes
-- laid out.
pub mod Layout
pub mod Marks
pub mod Verdicts
pub mod Trials
pub mod Checked
pub mod Agreeing
