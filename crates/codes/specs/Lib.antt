pub mod Refusals
pub mod Columns
pub mod Versions
pub mod Spans
pub mod Lists
pub mod UnitForms
