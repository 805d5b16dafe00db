pub mod Filled
pub mod PlainLaws
pub mod Places
