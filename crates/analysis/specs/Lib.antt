pub mod Tables
pub mod Steps
pub mod Passing
pub mod Fresh
pub mod Stretch
