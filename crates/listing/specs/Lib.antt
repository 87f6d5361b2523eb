pub mod Listing
pub mod AddsUp
pub mod SectionCode
