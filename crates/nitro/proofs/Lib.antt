pub mod ContainerLaws
pub mod FiniteLaws
pub mod EntryLaws
pub mod NumberLaws
