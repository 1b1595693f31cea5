pub mod Keeping
pub mod Marks
pub mod Parts
pub mod Stating
pub mod Taking
pub mod Whole
