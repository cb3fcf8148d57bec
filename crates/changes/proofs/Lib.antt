pub mod ChangedImages
pub mod Numbered
pub mod Places
pub mod Puts
pub mod Shown
pub mod Views
