pub mod Processing
pub mod ResultFlags
pub mod R15Reads
