pub mod Animation
pub mod AnimationCode
