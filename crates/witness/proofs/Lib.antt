-- Laws of runs within the premises.
pub mod Deliveries
pub mod Extended
pub mod Played
pub mod Deciding
pub mod Finished
pub mod ReachingIdeals
pub mod ReachingDecisions
pub mod ReachingAsked
pub mod ReachingNumber
pub mod Reaching
pub mod EveningEnds
pub mod Evening
