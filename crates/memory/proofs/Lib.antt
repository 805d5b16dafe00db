pub mod ByteLaws
pub mod Laws
pub mod Lanes
pub mod Fetches
pub mod FourBytes
pub mod Lengths
