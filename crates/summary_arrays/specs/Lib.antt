pub mod SummaryArray
pub mod Laws
pub mod Places
