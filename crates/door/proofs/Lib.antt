pub mod Bytes
pub mod Cutting
pub mod Written
pub mod Outcomes
