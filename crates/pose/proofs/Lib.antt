pub mod PoseLaws
