pub mod Stages
pub mod Stamps
pub mod Framed
