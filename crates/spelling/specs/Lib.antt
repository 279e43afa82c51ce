pub mod Spelled
pub mod Entering
