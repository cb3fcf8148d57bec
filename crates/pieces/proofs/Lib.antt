pub mod Pieces
pub mod Beginnings
