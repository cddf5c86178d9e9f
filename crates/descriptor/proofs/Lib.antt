pub mod RoundTrip
pub mod Bits
pub mod Examples
