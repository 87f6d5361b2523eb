pub mod PatternLaws
pub mod HeldLaws
pub mod FindLaws
pub mod FewLaws
pub mod NumberLaws
