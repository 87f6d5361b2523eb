pub mod DigitsLaws
pub mod LengthsLaws
pub mod PrintsLaws
pub mod WritesLaws
