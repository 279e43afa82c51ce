pub mod Assumption
pub mod Kinds
