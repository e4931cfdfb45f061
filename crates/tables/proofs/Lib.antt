pub mod Tests
pub mod Counts
mod Elimination
pub mod TwoCodes
