pub mod PlainArray
pub mod Places
