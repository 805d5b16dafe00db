pub mod Reader
pub mod Layout
