pub mod Fields
pub mod Tests
