pub mod ReadLaws
pub mod WordLaws
pub mod WriteLaws
