pub mod Places
pub mod Written
pub mod RoundTrip
pub mod Examples
