-- Deliveries of what was written, full rounds as lists of calls, lists of decisions brought to their end, runs that
-- make given numbers, and a worked evening.
pub mod Deliveries
pub mod Played
pub mod Finished
pub mod Reaching
pub mod Evening
