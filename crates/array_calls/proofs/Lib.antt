pub mod Refusing
pub mod Refused
pub mod Calling
pub mod Refusals
