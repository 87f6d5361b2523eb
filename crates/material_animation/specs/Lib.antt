pub mod MaterialAnimation
pub mod MaterialAnimationCode
