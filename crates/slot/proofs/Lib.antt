pub mod Settling
pub mod Lists
pub mod HexTrip
pub mod Stores
