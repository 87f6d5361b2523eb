pub mod Pattern
pub mod PatternCode
