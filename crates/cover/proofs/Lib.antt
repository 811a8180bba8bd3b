pub mod Printing
pub mod Filling
pub mod Opening
pub mod Showing
