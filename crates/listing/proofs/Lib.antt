pub mod Places
pub mod Replies
pub mod Each
pub mod Single
