pub mod Matrix
pub mod Finite
