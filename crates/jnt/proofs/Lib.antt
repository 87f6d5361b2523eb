pub mod JntLaws
