pub mod Rotation
pub mod RotationCode
