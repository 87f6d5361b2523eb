pub mod WritePattern
pub mod WritingCode
pub mod RoundTrip
pub mod Again
pub mod Examples
