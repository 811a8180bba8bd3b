pub mod Tests
pub mod KeepLaws
pub mod SumLaws
pub mod HeadLaws
pub mod VerdictLaws
pub mod MarkLaws
pub mod FaultWalk
pub mod RoomLaws
