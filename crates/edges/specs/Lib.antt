-- What the marked edges ask and what the ends answer, and the table of them.
pub mod Asking
pub mod Table
pub mod Beside
