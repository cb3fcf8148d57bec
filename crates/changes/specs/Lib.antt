pub mod Changes
pub mod Images
pub mod Laws
pub mod Numbered
pub mod Pages
pub mod Parts
