-- What the proofs of several functions cite.
pub mod Words
pub mod Cursor
pub mod Round
pub mod Lap
pub mod Hiding
pub mod Found
pub mod Bounds
pub mod Touching
pub mod Untouching
pub mod Covering
pub mod Purifying
pub mod Committing
