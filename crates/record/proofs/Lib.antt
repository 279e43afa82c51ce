pub mod Frames
pub mod Partitions
pub mod Places
pub mod Readings
