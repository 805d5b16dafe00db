pub mod Pending
pub mod First
pub mod Flights
pub mod Agree
pub mod Laws
pub mod Marked
