pub mod SrtLaws
