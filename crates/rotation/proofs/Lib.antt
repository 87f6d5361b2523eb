pub mod RotationLaws
pub mod MagnitudeLaws
