pub mod Container
pub mod ContainerCode
pub mod EntryCode
