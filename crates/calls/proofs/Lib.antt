pub mod Tests
pub mod Rooms
pub mod Refusals
pub mod Outcomes
pub mod Points
pub mod Pointing
pub mod Entry
