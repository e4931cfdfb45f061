mod Division
pub mod Listings
