mod Given
pub mod Writing
pub mod Columns
pub mod Uniqueness
pub mod Slots
pub mod ReadBytes
pub mod Sums
pub mod Parities
