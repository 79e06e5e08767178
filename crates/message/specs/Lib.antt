-- How a message lies in its bytes, the bytes of each kind, what reading them gives, what writing does to a frame, keys,
-- and what is asked of a sender. Ranges is for laws.
pub mod Layout
pub mod Events
pub mod Shares
pub mod Acknowledgements
pub mod Reading
pub mod Writing
pub mod Keys
pub mod Senders
pub mod Ranges
