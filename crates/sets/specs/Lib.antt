pub mod Refusals
pub mod Fillings
pub mod Rebuilding
pub mod Calls
pub mod Sets
pub mod Meaning
