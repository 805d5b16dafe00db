pub mod RecordLaws
pub mod Places
