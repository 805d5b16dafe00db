pub mod Scale
pub mod Order
