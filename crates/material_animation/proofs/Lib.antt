pub mod MaterialLaws
pub mod FindLaws
pub mod FiniteLaws
pub mod NumberLaws
