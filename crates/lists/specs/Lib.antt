-- Lists as arrays, different members of a list, counting, rising numbers, numbers as bytes, layouts of fields, and bytes
-- in a frame. Places is for laws and inner functions.
pub mod Arrays
pub mod Kinds
pub mod Counts
pub mod Rising
pub mod Bytes
pub mod Fields
pub mod Frames
pub mod Places
