pub mod Line
pub mod Job
