pub mod Columns
pub mod Fillings
pub mod Differences
pub mod Rebuilding
