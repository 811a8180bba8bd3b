pub mod AlikeLaws
pub mod AppendLaws
pub mod LiveLaws
pub mod EntryLaws
pub mod OptionLaws
pub mod ItemLaws
pub mod HeaderLaws
