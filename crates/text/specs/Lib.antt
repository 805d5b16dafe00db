pub mod Digit
pub mod Text
pub mod Output
pub mod Quoted
