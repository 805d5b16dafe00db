pub mod Fields
pub mod Writer
pub mod Term2
pub mod Layout
