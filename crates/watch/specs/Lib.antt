pub mod Told
pub mod Quick
pub mod Rated
pub mod Refused
