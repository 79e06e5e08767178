-- Laws of lists, for every crate above.
pub mod Stores
pub mod Tails
pub mod Counts
pub mod Passing
pub mod Padding
pub mod Members
pub mod Pigeonhole
pub mod Rising
pub mod Numbers
pub mod Equal
pub mod Runs
pub mod Frames
pub mod Layouts
