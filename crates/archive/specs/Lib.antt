pub mod Books
pub mod Runs
pub mod Law
pub mod Logs
pub mod Figures
