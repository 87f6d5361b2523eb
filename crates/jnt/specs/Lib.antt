pub mod OpenedCode
