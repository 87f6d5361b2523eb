pub mod SectionLaws
pub mod TotalsLaws
pub mod AddsUp
pub mod Fits
pub mod ObjectsTold
