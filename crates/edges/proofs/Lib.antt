-- That the marked edges hold.
pub mod Shares
pub mod Playbooks
pub mod Theorem
pub mod Beside
