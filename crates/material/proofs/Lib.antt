pub mod JoinLaws
pub mod EntriesLaws
