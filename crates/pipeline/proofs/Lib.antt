pub mod Calls
pub mod Sound
pub mod Settled
pub mod Position
pub mod Keeps
pub mod Lists
pub mod Marked
