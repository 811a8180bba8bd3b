pub mod Points
pub mod Replays
pub mod Depth
pub mod Begun
pub mod Meant
pub mod Arrived
