pub mod Lines
pub mod Numbers
pub mod Taken
pub mod Texts
pub mod Words
