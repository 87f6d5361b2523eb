pub mod Written
pub mod WrittenCode
