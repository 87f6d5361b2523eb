pub mod Player
pub mod Plays
pub mod Cuts
pub mod Examples
pub mod PlayerCode
