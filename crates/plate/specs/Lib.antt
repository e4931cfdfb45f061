pub mod Requests
pub mod Pages
pub mod Printed
pub mod Input
