pub mod Name
pub mod NameCode
pub mod InfoBlock
pub mod InfoBlockCode
