mod Rows
pub mod Room
pub mod Joined
pub mod KeySteps
pub mod Loop
pub mod Counts
pub mod Differ
pub mod FieldLaws
pub mod RecordLaws
pub mod StageLaws
pub mod ImageLaws
pub mod Migrated
pub mod Unlisted
