pub mod Options
pub mod Results
pub mod Outcome
pub mod Restart
pub mod OneAnswer
