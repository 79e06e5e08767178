-- The playbook's store, its records, what reading does, which stores it leaves, and the plan of a trigger. Printing is
-- for laws, Asking, Gathering and Members are for inner functions.
pub mod Limits
pub mod Books
pub mod Records
pub mod Reading
pub mod Storing
pub mod Printing
pub mod Plans
pub mod Asking
pub mod Gathering
pub mod Members
