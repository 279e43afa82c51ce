pub mod Frame
pub mod Partition
pub mod Reads
pub mod Fields
