pub mod Inverse
pub mod Put
pub mod Digits
