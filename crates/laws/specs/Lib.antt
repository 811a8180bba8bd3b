pub mod Lists
pub mod Order
pub mod Faults
pub mod Reached
