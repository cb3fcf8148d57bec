pub mod Buffers
pub mod Done
pub mod Entries
pub mod Places
