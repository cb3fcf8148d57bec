pub mod Lines
pub mod Options
