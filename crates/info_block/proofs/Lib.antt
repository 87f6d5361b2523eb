pub mod InfoBlockLaws
pub mod EqualLaws
pub mod EarliestLaws
pub mod NameLaws
pub mod BytesLaws
pub mod NumberLaws
pub mod WrittenLaws
