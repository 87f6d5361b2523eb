pub mod BytesLaws
pub mod MagnitudeLaws
