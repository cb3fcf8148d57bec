pub mod Flags
pub mod Statuses
