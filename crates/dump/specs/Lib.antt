pub mod Values
pub mod Line
pub mod Tables
pub mod Record
pub mod Choice
pub mod LogLines
pub mod StoreLines
