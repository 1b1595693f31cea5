pub mod FileOutcomes
pub mod Files
pub mod Grammar
pub mod Outcomes
pub mod Statements
pub mod Trees
