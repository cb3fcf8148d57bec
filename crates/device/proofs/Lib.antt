mod Empty
mod Pieces
pub mod Reach
