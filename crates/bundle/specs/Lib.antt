pub mod Arrow
