pub mod PlayerWords
pub mod PlayerWordsCode
