pub mod TrsLaws
