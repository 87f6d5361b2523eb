pub mod TrsCode
