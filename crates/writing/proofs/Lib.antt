pub mod TracksLaws
pub mod CheckLaws
pub mod RoundTrip
pub mod Again
