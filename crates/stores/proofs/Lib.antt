pub mod Positions
pub mod Hops
pub mod Laying
pub mod Stores
pub mod AreaCalls
pub mod ShelfCalls
