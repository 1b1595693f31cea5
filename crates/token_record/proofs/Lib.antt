pub mod Fronts
pub mod Leading
pub mod Once
pub mod Records
pub mod RoundTrip
pub mod Sound
pub mod Wholes
