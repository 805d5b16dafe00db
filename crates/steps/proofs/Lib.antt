pub mod OwnSteps
pub mod LatchTable
