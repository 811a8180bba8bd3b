pub mod Walked
pub mod Called
