pub mod Moves
pub mod Steps
pub mod Rising
pub mod Laps
