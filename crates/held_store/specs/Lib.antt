pub mod Block
pub mod Held
pub mod Images
pub mod Zeros
