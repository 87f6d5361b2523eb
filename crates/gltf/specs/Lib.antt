pub mod Curve
pub mod CurveCode
