pub mod Numbers
pub mod SameKeys
