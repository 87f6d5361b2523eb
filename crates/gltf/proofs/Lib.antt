pub mod FrameLaws
pub mod ResampleLaws
pub mod FiniteLaws
