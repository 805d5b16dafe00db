pub mod Abi
pub mod Lists
pub mod Hex
pub mod HexTrip
pub mod Store
pub mod Stores
