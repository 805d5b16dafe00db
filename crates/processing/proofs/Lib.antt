pub mod Parts
pub mod ResultFlags
pub mod R15Reads
