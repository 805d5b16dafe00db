pub mod RecordArray
pub mod Places
