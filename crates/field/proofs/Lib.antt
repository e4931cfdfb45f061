mod Exponents
pub mod Arrays
pub mod Dots
pub mod DotSums
