pub mod SrtCode
