pub mod RowEdits
pub mod RowsHeld
pub mod TreePlaces
pub mod Growth
pub mod Walks
