pub mod Tables
pub mod Lawful
pub mod Pieces
