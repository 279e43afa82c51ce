pub mod Event
pub mod Trace
pub mod Node
pub mod Strands
pub mod Origin
pub mod Lent
pub mod Seeking
