pub mod Laws
pub mod Filled
pub mod Places
