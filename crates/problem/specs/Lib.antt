pub mod CutLaws
pub mod Sums
pub mod Heads
pub mod Marks
pub mod Measured
pub mod Room
