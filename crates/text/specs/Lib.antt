pub mod Pieces
pub mod Names
pub mod Entries
pub mod Read
