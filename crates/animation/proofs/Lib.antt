pub mod ScalarLaws
pub mod RotationLaws
pub mod GreatestLaws
pub mod ObjectLaws
pub mod FiniteLaws
pub mod NumberLaws
