pub mod BigEndian
pub mod Causes
mod Empty
pub mod Files
pub mod Once
pub mod PageLsns
pub mod Pages
pub mod Piecewise
pub mod Reading
pub mod Slots
pub mod Writing
