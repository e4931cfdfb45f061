pub mod Codewords
pub mod Multipliers
