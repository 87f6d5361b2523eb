pub mod PlayerWordsLaws
