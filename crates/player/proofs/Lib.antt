pub mod StepLaws
pub mod PlaysLaws
pub mod CutsLaws
