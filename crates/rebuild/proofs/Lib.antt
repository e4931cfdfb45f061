pub mod Gathering
mod Rows
mod Standing
pub mod Exchange
pub mod Pivoting
pub mod Steps
pub mod Combining
pub mod Planning
pub mod OwnHalves
