pub mod DrawnLaws
pub mod SizedLaws
pub mod TracksBack
pub mod EntryBack
pub mod SectionBack
