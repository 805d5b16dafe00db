pub mod Calls
pub mod Settle
pub mod Term3
pub mod Marked
