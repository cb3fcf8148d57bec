pub mod OptionFaults
pub mod Causes
pub mod Served
pub mod Tallied
pub mod Restored
pub mod Whole
pub mod OneAnswer
pub mod OneCause
