pub mod Place
pub mod Listing
pub mod Held
