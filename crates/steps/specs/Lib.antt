pub mod Steps
pub mod LatchTable
