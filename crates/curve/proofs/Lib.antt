pub mod FloorLaws
pub mod IndexLaws
pub mod SampleLaws
pub mod MagnitudeLaws
pub mod MixLaws
