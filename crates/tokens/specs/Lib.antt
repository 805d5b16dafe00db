pub mod Token
pub mod Mode
pub mod Cases
