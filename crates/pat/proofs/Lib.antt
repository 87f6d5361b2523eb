pub mod PatLaws
