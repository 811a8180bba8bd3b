pub mod Timed
pub mod Fronts
