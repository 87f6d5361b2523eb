pub mod PatCode
